mod SmallScreens
