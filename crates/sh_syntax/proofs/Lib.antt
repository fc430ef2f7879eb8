mod Lists
